pub mod PutLine
