-- Lists, options, applications and products as they are read.
pub mod Options
pub mod Applications
pub mod Elements
pub mod Products
pub mod ConstructorTypes
