-- A write to a connection that is open: what of the first packet is left, or as much of it as may be offered.
use Rattle.std.specs.Prelude.{ℕ, ◌≤◌, ◌≡◌, ◌≢◌, true, List, [], take}
use Rattle.link_bay.specs.Connections.{ConnectionRecord}
use Rattle.link_bay.specs.Answers.{WriteGives, is_dry}
use Rattle.link_bay.specs.declared.bay.Wrote.TheVariants as W
use Rattle.client_connection.specs.declared.answers.Sent.{Sent}
use Rattle.client_connection.specs.declared.ends.End.{End}
use Rattle.client_connection.specs.declared.ends.End.TheVariants as end
use Rattle.client_connection.specs.declared.answers.Sent.TheVariants as S
use Rattle.client_connection.specs.Clients.{ClientSeen, taken_more, front_rest}

-- what is offered, of at most so many bytes
abbrev pub offered : ℕ → ClientSeen → List ℕ
offered most c = take most (front_rest c.packets c.taken)

-- a write that did not fail: the connection before and after, and the client before and after
abbrev pub Writes : ℕ → ConnectionRecord → ConnectionRecord → ClientSeen → Sent → ClientSeen → Type 0
Writes most was now c S.Closed c' = ⊥
Writes most was now c S.Idle c' = (c.packets ≡ []) × (now ≡ was) × (c' ≡ c)
Writes most was now c (S.Took n) c' = (1 ≤ n) × (c.packets ≢ []) × WriteGives was now (offered most c) (W.Took n) × (c' ≡ taken_more n c)
Writes most was now c S.Again c' = (c.packets ≢ []) × WriteGives was now (offered most c) (W.Took 0) × (is_dry (offered most c) 0 ≡ true) × (c' ≡ c)
Writes most was now c (S.Ended ended) c' = ⊥
Writes most was now c S.NoMemory c' = (c.packets ≢ []) × WriteGives was now (offered most c) W.NoMemory × (c' ≡ c)

-- a write that failed
abbrev pub Fails : ℕ → ConnectionRecord → ConnectionRecord → ClientSeen → Type 0
Fails most was now c = (c.packets ≢ []) × WriteGives was now (offered most c) W.Failed

-- why a write ends a connection, by the end
abbrev pub WriteEnds : ℕ → ConnectionRecord → ConnectionRecord → ClientSeen → End → Type 0
WriteEnds most was now c end.Settled = ⊥
WriteEnds most was now c end.Unbuilt = Fails most was now c
WriteEnds most was now c end.Short = ⊥
WriteEnds most was now c end.Unended = ⊥
