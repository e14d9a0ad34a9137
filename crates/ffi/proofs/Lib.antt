pub mod Narrow
pub mod Answers
pub mod Records
pub mod Lists
pub mod Demand
pub mod OwnLoss
