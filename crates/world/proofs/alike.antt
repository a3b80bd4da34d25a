-- Worlds that are one but for what acceptors reported go on alike.
pub mod AlikeReports
pub mod AlikePromises
pub mod AlikePairs
pub mod AlikeLeaders
pub mod AlikeNodes
pub mod AlikeOrders
pub mod AlikeSteps
pub mod AlikeRuns
