pub mod NotEmpty
