pub mod Names
pub mod Hypotheses
pub mod Used
pub mod Discharge
pub mod Laws
pub mod calls
