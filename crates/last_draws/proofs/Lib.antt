pub mod Filed
pub mod Refused
pub mod Draws
pub mod Others
pub mod Nearer
pub mod Drawn
