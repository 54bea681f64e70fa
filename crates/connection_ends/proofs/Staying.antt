-- Causes while the connections go on.
use Rattle.std.proofs.Common.{◌≡◌, ℕ, ◌≤◌, inl, inr, Some, None, List, ◌++◌, length, refl, sym, ap, ◌∙◌, subst, arith}
use Rattle.std.specs.Prelude.{Option, Ok}
use Rattle.std.proofs.lemmas.List.{length-append}
use Rattle.xp_base.specs.Counts.{Rose, RoseBy}
use Rattle.hello_caps.specs.declared.caps.Caps.{Caps}
use Rattle.packet_kinds.specs.Talk.{talk, Continues}
use Rattle.client_talk.specs.Talked.{server_limit, hello_in, HasGreeted}
use Rattle.connection_ends.specs.declared.end.End.TheVariants as E
use Rattle.connection_ends.specs.Causes.{TellsThat, ReturnsAs, GaveMore}
use Rattle.connection_ends.specs.Laws.{GoOn, CausesStay, CausesCountFromEarlier, OnlySettledSpeaksOfTheDesktop}

module _ (more_says : (limit : ℕ) (bytes more : List ℕ) → Continues (talk limit bytes) (talk limit (bytes ++ more))) where
  still_greeted : (given more : List ℕ) (caps : Caps) → HasGreeted (talk server_limit given) caps → HasGreeted (talk server_limit (given ++ more)) caps
  still_greeted given more caps greeted = ap hello_in (c.first (λ none. go (sym (ap hello_in none) ∙ greeted))) ∙ greeted
    where
      c : Continues (talk server_limit given) (talk server_limit (given ++ more))
      c = more_says server_limit given more

      go : hello_in None ≡ Some (Ok caps) → ⊥
      go bad = cc bad

  returns_still : (earlier later later' : List ℕ) → GoOn (Some later) (Some later') → ReturnsAs earlier later → ReturnsAs earlier later'
  returns_still earlier later later' on is = record {
    caps = is.caps;
    caps' = is.caps';
    greeted = is.greeted;
    greeted' = subst (λ (bytes : List ℕ). HasGreeted (talk server_limit bytes) is.caps') (sym on.1) (still_greeted later on.0 is.caps' is.greeted');
    same = is.same;
    named = is.named;
  }

  told_still : (earlier : List ℕ) (o o' : Option (List ℕ)) → GoOn o o' → TellsThat o (ReturnsAs earlier) → TellsThat o' (ReturnsAs earlier)
  told_still earlier None None on is = tt
  told_still earlier None (Some later') on is = absurd on
  told_still earlier (Some later) None on is = tt
  told_still earlier (Some later) (Some later') on is = returns_still earlier later later' on is

  both_still : (o p p' : Option (List ℕ)) → GoOn p p' → TellsThat o (λ given. TellsThat p (ReturnsAs given)) → TellsThat o (λ given. TellsThat p' (ReturnsAs given))
  both_still None p p' on is = tt
  both_still (Some given) p p' on is = told_still given p p' on is

  pub stays : CausesStay
  stays desk was now now' k E.Settled same on is = rw same is
  stays desk was now now' k E.Left same on is = rw same is
  stays desk was now now' k (E.Refused fault) same on is = rw same is
  stays desk was now now' k (E.Broken place fault) same on is = rw same is
  stays desk was now now' k (E.TakenOver c) same on is = (is.0, rw same (both_still (now k).given (now c.0).given (now' c.0).given on is.1))
  stays desk was now now' k E.LinkFault same on is = rw same is
  stays desk was now now' k E.Stalled same on is = rw same is
  stays desk was now now' k E.Flooded same on is = rw same is
  stays desk was now now' k E.Silent same on is = rw same is
  stays desk was now now' k E.Short same on is = tt
  stays desk was now now' k E.Unended same on is = tt

rose : (was was' now : ℕ) → was ≤ was' → Rose was' now → Rose was now
rose was was' now before is = record { later = omega (arith, before, is.later); risen = omega (arith, before, is.risen) }

rose_by : (n was was' now : ℕ) → was ≤ was' → RoseBy n was' now → RoseBy n was now
rose_by n was was' now before is = record { later = omega (arith, before, is.later); risen = omega (arith, before, is.risen) }

gave : (n : ℕ) (was was' now : Option (List ℕ)) → GoOn was was' → GaveMore n was' now → GaveMore n was now
gave n None was' now on is = tt
gave n (Some a) None now on is = absurd on
gave n (Some a) (Some b) None on is = tt
gave n (Some a) (Some b) (Some c) on is = omega (arith, ap length on.1, length-append a on.0, is)

pub earlier : CausesCountFromEarlier
earlier desk was was' now k E.Settled before is = record { read_out = is.read_out; waited = rose (was k).waits (was' k).waits (now k).waits before.waits is.waited; said = is.said; shows = is.shows }
earlier desk was was' now k E.Left before (inl said) = inl said
earlier desk was was' now k E.Left before (inr ended) = inr (rose (was k).ends (was' k).ends (now k).ends before.ends ended)
earlier desk was was' now k (E.Refused fault) before is = is
earlier desk was was' now k (E.Broken place fault) before is = is
earlier desk was was' now k (E.TakenOver c) before is = is
earlier desk was was' now k E.LinkFault before is = rose (was k).faults (was' k).faults (now k).faults before.faults is
earlier desk was was' now k E.Stalled before is = (rose_by 1000 (was k).dry (was' k).dry (now k).dry before.dry is.0, is.1)
earlier desk was was' now k E.Flooded before is = gave 4194304 (was k).given (was' k).given (now k).given before.given is
earlier desk was was' now k E.Silent before is = (rose (was k).waits (was' k).waits (now k).waits before.waits is.0, is.1)
earlier desk was was' now k E.Short before is = tt
earlier desk was was' now k E.Unended before is = tt

pub same_desk : OnlySettledSpeaksOfTheDesktop
same_desk desk desk' was now k E.Settled other is = absurd (other refl)
same_desk desk desk' was now k E.Left other is = is
same_desk desk desk' was now k (E.Refused fault) other is = is
same_desk desk desk' was now k (E.Broken place fault) other is = is
same_desk desk desk' was now k (E.TakenOver c) other is = is
same_desk desk desk' was now k E.LinkFault other is = is
same_desk desk desk' was now k E.Stalled other is = is
same_desk desk desk' was now k E.Flooded other is = is
same_desk desk desk' was now k E.Silent other is = is
same_desk desk desk' was now k E.Short other is = tt
same_desk desk desk' was now k E.Unended other is = tt
