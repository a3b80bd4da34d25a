pub mod AllCounts
