pub mod Stays
pub mod TimerLaws
