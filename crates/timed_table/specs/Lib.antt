pub mod Marks
pub mod StationMarks
pub mod Table
pub mod Tables
