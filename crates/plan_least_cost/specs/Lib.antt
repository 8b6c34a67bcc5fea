pub mod LeastCost
