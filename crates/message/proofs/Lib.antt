pub mod Spans
pub mod Segments
pub mod Orders
pub mod WrongOptions
pub mod Bodies
pub mod FirstFault
pub mod Laws
