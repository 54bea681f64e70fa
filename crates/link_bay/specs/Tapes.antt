-- What the provider of tapes keeps.
use Rattle.std.specs.Prelude.{ℕ, Bool, true, Option, Some, None, List, [], take, drop, length, map, slice_get}
use Rattle.link_bay.specs.Connections.{ConnectionRecord, fresh_connection}
use Rattle.link_bay.specs.Provider.{ProviderRecord}
use Rattle.link_bay.specs.Counted.{no_counts, with_counts}
use Rattle.link_bay.specs.declared.counters.Counters.{Counters}
use Rattle.link_bay.specs.declared.inbound.Inbound.{Inbound}

-- what one client says, whether it then ends the connection, the most that one read gives and that one write takes, and the
-- numbers of the reads and of the writes that fail, counted from 1
pub record Tape : Type 0 where
  pub bytes : List ℕ
  pub ends : Bool
  pub piece : ℕ
  pub quota : ℕ
  pub failing_reads : List ℕ
  pub failing_writes : List ℕ

abbrev pub tape_of : Inbound → Tape
tape_of i = record {
  bytes = i.bytes.items;
  ends = i.ends;
  piece = i.piece;
  quota = i.quota;
  failing_reads = i.failing_reads.items;
  failing_writes = i.failing_writes.items;
}

-- a connection that a tape plays: how many of its bytes were handed out, how many reads and writes there were, the bytes that were
-- taken, for each of them how many had been handed out by then, and the counts
pub record PlayedTape : Type 0 where
  pub tape : Tape
  pub place : ℕ
  pub reads : ℕ
  pub writes : ℕ
  pub sent : List ℕ
  pub heard : List ℕ
  pub counts : Counters

-- nothing has happened yet
abbrev pub fresh_tape : Tape → PlayedTape
fresh_tape tape = record { tape = tape; place = 0; reads = 0; writes = 0; sent = []; heard = []; counts = no_counts }

-- the bytes that are not handed out yet
abbrev pub left_on : PlayedTape → List ℕ
left_on p = drop p.place p.tape.bytes

abbrev pub tape_connection : PlayedTape → ConnectionRecord
tape_connection p = with_counts (Some p.sent) (Some (take p.place p.tape.bytes)) (Some p.heard) p.counts

-- the tapes that wait to be accepted, those that were accepted by their connections' numbers, the numbers of the accepts that fail,
-- counted from 1, how many accepts there were, how many failed, and how many found nobody
pub record TapeProvider : Type 0 where
  pub waiting : List Tape
  pub played : List PlayedTape
  pub failing : List ℕ
  pub accepts : ℕ
  pub faults : ℕ
  pub lulls : ℕ

-- nothing was accepted yet
abbrev pub new_tapes : List Inbound → List ℕ → TapeProvider
new_tapes tapes failing = record { waiting = map tape_of tapes; played = []; failing = failing; accepts = 0; faults = 0; lulls = 0 }

-- a number that was not handed out yet is as it will be handed out
abbrev pub played_connection : Option PlayedTape → ConnectionRecord
played_connection None = fresh_connection true
played_connection (Some p) = tape_connection p

abbrev pub tapes_connection : TapeProvider → ℕ → ConnectionRecord
tapes_connection b c = played_connection (slice_get b.played c)

abbrev pub tapes_provider : TapeProvider → ProviderRecord
tapes_provider b = record { count = length b.played; asked = None; room = length b.waiting; faults = b.faults; lulls = b.lulls }
