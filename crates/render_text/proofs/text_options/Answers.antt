-- `render_text::text_options` meets its contract.
use Rattle.render_text.proofs.Settings.{settings}
use Rattle.render_text.proofs.text_options.Goals as goal

pub returns-in-On : goal.returns-in-On
returns-in-On c = search settings

pub returns-in-Off : goal.returns-in-Off
returns-in-Off c = search settings
