pub mod ByExporter
pub mod Handover
pub mod Holder
pub mod Regions
pub mod Standing
pub mod Laws
