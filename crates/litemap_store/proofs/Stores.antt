-- What a closure keeps, and by how much a count is raised.
pub mod Counting
pub mod Retaining
