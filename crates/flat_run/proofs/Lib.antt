pub mod StsLaws
pub mod RegionLaws
pub mod RunLaws
pub mod RecordLaws
pub mod CountLaws
pub mod ShapeLaws
pub mod LimitLaws
pub mod DueLaws
