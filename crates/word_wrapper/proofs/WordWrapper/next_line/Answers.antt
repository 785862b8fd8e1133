-- `word_wrapper::WordWrapper::next_line` meets its contract.
use Rattle.word_wrapper.proofs.Pulling.{pulling, sound-sum, sound-within}
use native.Mathlib.Omega.{arith}
use Rattle.word_wrapper.proofs.WordWrapper.next_line.Goals as goal

pub returns-in-Some : goal.returns-in-Some
returns-in-Some c = search pulling

pub loop-wrapper-smaller : goal.loop-wrapper-smaller
loop-wrapper-smaller c = search pulling

pub loop-wrapper-preserved : goal.loop-wrapper-preserved
loop-wrapper-preserved c = search pulling

pub finish-last-requires : goal.finish-last-requires
finish-last-requires c = omega (arith, sound-sum, sound-within)

pub returns-then-self : goal.returns-then-self
returns-then-self c = search pulling

pub returns : goal.returns
returns c = search pulling
