-- What the calls that read the parts of a source answer.
pub mod Reading
