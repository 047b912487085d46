pub mod PutLaws
pub mod RowLaws
