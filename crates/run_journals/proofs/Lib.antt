pub mod RunLawful
