pub mod ReadDegree
pub mod ExportRead
pub mod ReadExport
pub mod NearTrue
pub mod FirstKey
pub mod NoKey
