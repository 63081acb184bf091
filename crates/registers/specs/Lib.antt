pub mod Control
pub mod Irq
pub mod Set
pub mod Registers
pub mod Read
