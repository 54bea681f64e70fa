mod PlanningLemmas
mod Captures
