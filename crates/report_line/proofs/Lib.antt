-- The laws of a result's lines: how long they are, their numbers as they are held, and one behind the other. Assumes nothing.
pub mod Wide
pub mod Refused
pub mod Short
pub mod Like
pub mod Forms
pub mod Said
pub mod RoleLine
pub mod Behind
