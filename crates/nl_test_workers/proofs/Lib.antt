pub mod Turned
pub mod OneMore
pub mod Totals
pub mod RoundSums
pub mod FaultDue
