pub mod RealFiles
pub mod NotedFiles
pub mod Names
pub mod System
