-- Words that state contracts of the parts of typing.
pub mod Parts
