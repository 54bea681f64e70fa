use Rattle.delivery_log.proofs.Turns.{allowed_where, pending_captured}
use Rattle.delivery_log.proofs.Distances.{read_rests, ends_nearer}
use Rattle.delivery_log.proofs.laws.parts_of_a_turn_come_nearer.Goals as goal

pub returns-clause-read : goal.returns-clause-read
returns-clause-read c = read_rests

pub returns-clause-allowed : goal.returns-clause-allowed
returns-clause-allowed c = allowed_where

pub returns-clause-capture : goal.returns-clause-capture
returns-clause-capture c = pending_captured

pub returns-clause-end : goal.returns-clause-end
returns-clause-end c = ends_nearer
