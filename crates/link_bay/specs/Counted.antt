-- The counts of one connection, kept by a provider.
use Rattle.std.specs.Prelude.{ℕ, if◌then◌else◌, max, Option, Some, None, List, length, slice_get}
use Rattle.xp_base.specs.Counts.{count_sum}
use Rattle.link_bay.specs.Connections.{ConnectionRecord}
use Rattle.link_bay.specs.Provider.{ProviderRecord}
use Rattle.link_bay.specs.Answers.{is_dry, drought_after}
use Rattle.link_bay.specs.declared.counters.Counters.{Counters}

abbrev pub no_counts : Counters
no_counts = record { faults = 0; dry = 0; waits = 0; ends = 0; drought = 0; worst = 0; unheard = 0 }

-- after a write that took so many bytes of a piece
abbrev pub after_write : List ℕ → ℕ → Counters → Counters
after_write piece n k = record k {
  dry = if is_dry piece n then count_sum k.dry 1 else k.dry;
  drought = drought_after k.drought piece n;
  worst = max k.worst (drought_after k.drought piece n);
  unheard = count_sum k.unheard n;
}

-- these counts, with what is told of the bytes
abbrev pub with_counts : Option (List ℕ) → Option (List ℕ) → Option (List ℕ) → Counters → ConnectionRecord
with_counts sent given heard k = record {
  sent = sent;
  given = given;
  heard = heard;
  faults = k.faults;
  dry = k.dry;
  waits = k.waits;
  ends = k.ends;
  drought = k.drought;
  worst = k.worst;
  unheard = k.unheard;
}

-- a connection that tells nothing; a number that was not handed out yet counts nothing
abbrev pub mute_connection : Option Counters → ConnectionRecord
mute_connection None = with_counts None None None no_counts
mute_connection (Some k) = with_counts None None None k

-- the connections and the provider of clients of which only counts are kept
abbrev pub mutes_connection : List Counters → ℕ → ConnectionRecord
mutes_connection clients c = mute_connection (slice_get clients c)

abbrev pub mutes_provider : List Counters → ℕ → ℕ → ProviderRecord
mutes_provider clients room lulls = record { count = length clients; asked = None; room = room; faults = 0; lulls = lulls }
