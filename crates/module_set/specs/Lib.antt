pub mod ModuleSet
