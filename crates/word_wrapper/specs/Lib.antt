pub mod StepsExtra
pub mod PullsExtra
