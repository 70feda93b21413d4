-- What the laws of the rules speak of, beside the rules.
pub mod Substitution
pub mod Growth
pub mod TypedContexts
pub mod WellTypedLookups
pub mod StepsTo
pub mod calls
