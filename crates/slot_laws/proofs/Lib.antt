pub mod Look
pub mod Does
pub mod Conserve
pub mod Time
pub mod Splice
pub mod Keep
pub mod Single
pub mod Arrive
