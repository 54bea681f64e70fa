mod CountingLemmas
mod Subsequences
mod QueueSteps
mod QueueLessons
