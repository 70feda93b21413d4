-- The proofs of the laws by which the rules refuse what they should and take what they should.
pub mod Spines
pub mod SortsApart
pub mod DomainsApart
pub mod Numbers
pub mod Variables
pub mod Eliminations
pub mod UnguardedCalls
pub mod NotPositive
pub mod LastDeclarations
pub mod Reaching
