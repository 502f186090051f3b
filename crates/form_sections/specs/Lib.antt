pub mod Sections
pub mod SectionLaws
