-- The laws, and what examples speak of.
pub mod Laws
pub mod Examples
