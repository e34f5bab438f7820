pub mod Kit
pub mod Phase
pub mod Slave
pub mod SlaveView
pub mod Standing
pub mod States
pub mod Taken
pub mod ViewOf
