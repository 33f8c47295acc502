pub mod Faults
pub mod Options
pub mod Forms
pub mod Read
pub mod FirstFault
pub mod Inside
pub mod Figures
