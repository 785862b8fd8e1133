pub mod StepLaws
pub mod States
pub mod Simulation
pub mod WholeLine
pub mod Pulling
