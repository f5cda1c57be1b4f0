pub mod Automata
pub mod Tests
pub mod Partitions
pub mod Looks
pub mod Rows
pub mod Minimized
