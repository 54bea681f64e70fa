-- What is done at the place of a window's source.
use Rattle.std.proofs.Common.{◌≡◌, ℕ, ℤ, pos, negsuc, ◌<◌, ◌+◌, Bool, true, false, not, Some, None, List, [], ◌∷◌, length, cond, eqb, ltb, suc, refl, sym, ap, ◌∙◌, subst, arith}
use Rattle.std.specs.Prelude.{Option, is_some, is_none, position, slice_set, slice_index_or, ◌==◌}
use Rattle.std.specs.List.{position_or_len}
use Rattle.std.proofs.Math.Path.{fun_ext}
use Rattle.std.proofs.lemmas.Bool.Decides.{nat_tests}
use Rattle.std.proofs.lemmas.Option.{slice_get-get_or}
use Rattle.xp_base.specs.Keyed.{HasDistinctKeys, keyed_change, keyed_remove}
use Rattle.xp_base.specs.KeyedLaws.{KeyedPlaces, KeyedKeeps}
use Rattle.delivery_model.specs.Window.{Window}
use Rattle.ack_tracker.specs.Unacknowledged.{rect_at}
use Rattle.window_source.specs.Source.{SourceSeen, after}
use Rattle.client_talk.specs.Marks.{names}
use Rattle.client_delivery.specs.Attached.{AttachedSeen, source_key, find_source}
use Rattle.client_delivery.specs.Steps.{changes_source}
use Rattle.attached_client.specs.Acting.{at_window, has_source, is_stray_in, place_named}
use Rattle.attached_client.proofs.Marking.{same_test}

abbrev pub IsAt : List SourceSeen → ℕ → ℕ → Type 0
IsAt sources k i = position (λ (s : SourceSeen). s.wid == k) sources ≡ Some i

abbrev pub IsNamedAt : List SourceSeen → ℤ → Option ℕ → Type 0
IsNamedAt sources number o = o ≡ place_named number sources

-- where no source has the number nothing changes
pub nothing_changes : (sources : List SourceSeen) (k : ℕ) (f : SourceSeen → SourceSeen) → find_source sources k ≡ None → keyed_change source_key sources k f ≡ sources
nothing_changes [] k f none = refl
nothing_changes (s ∷ sources) k f none = go (eqb s.wid k) none (nothing_changes sources k f)
  where
    go : (b : Bool) → cond b (Some s) (find_source sources k) ≡ None → (find_source sources k ≡ None → keyed_change source_key sources k f ≡ sources) → cond b (f s) s ∷ keyed_change source_key sources k f ≡ s ∷ sources
    go true none later = absurd (cc none)
    go false none later = ap (λ (l : List SourceSeen). s ∷ l) (later none)

-- and nothing is taken away
pub nothing_removed : (sources : List SourceSeen) (k : ℕ) → find_source sources k ≡ None → keyed_remove source_key sources k ≡ sources
nothing_removed [] k none = refl
nothing_removed (s ∷ sources) k none = go (eqb s.wid k) none (nothing_removed sources k)
  where
    go : (b : Bool) → cond b (Some s) (find_source sources k) ≡ None → (find_source sources k ≡ None → keyed_remove source_key sources k ≡ sources)
        → cond (not b) (s ∷ keyed_remove source_key sources k) (keyed_remove source_key sources k) ≡ s ∷ sources
    go true none later = absurd (cc none)
    go false none later = ap (λ (l : List SourceSeen). s ∷ l) (later none)

all_fail : (sources : List SourceSeen) → position_or_len (λ (s : SourceSeen). false) sources ≡ length sources
all_fail [] = refl
all_fail (s ∷ sources) = let later = all_fail sources in let more : 1 + position_or_len (λ (s : SourceSeen). false) sources ≡ suc (length sources) = omega (arith, later) in more

not_below : (n : ℕ) → ltb n n ≡ false
not_below n = grind (arith, nat_tests)

no_place : (sources : List SourceSeen) → position (λ (s : SourceSeen). false) sources ≡ None
no_place sources = ap (λ n. cond (ltb n (length sources)) (Some n) None) (all_fail sources) ∙ ap (λ b. cond b (Some (length sources)) None) (not_below (length sources))

pub record NamesPlace (sources : List SourceSeen) (number : ℤ) (i : ℕ) : Type 0 where
  pub k : ℕ
  pub is : number ≡ pos k
  pub at : IsAt sources k i

alike : (k : ℕ) (sources : List SourceSeen) → position (λ (s : SourceSeen). names s.wid (pos k)) sources ≡ position (λ (s : SourceSeen). s.wid == k) sources
alike k sources = ap (λ (p : SourceSeen → Bool). position p sources) (fun_ext (λ s. same_test k s.wid))

pub named_at : (sources : List SourceSeen) (number : ℤ) (i : ℕ) → IsNamedAt sources number (Some i) → NamesPlace sources number i
named_at sources (pos k) i at = record { k = k; is = refl; at = sym (alike k sources) ∙ sym at }
named_at sources (negsuc k) i at = absurd (let bad : None ≡ Some i = sym (no_place sources) ∙ sym at in cc bad)

-- a client whose source at this place made an event
pub record DoesAt (number : ℤ) (a : AttachedSeen) (i : ℕ) (old new : SourceSeen) (event : Window → Window) : Type 0 where
  pub there : has_source a number ≡ true
  pub acted : record a { sources = slice_set a.sources i new } ≡ at_window number a (λ k. changes_source k event a)
  pub kept : HasDistinctKeys source_key (slice_set a.sources i new)
  pub stray : (sequence : ℤ) → at_window number true (λ k. is_stray_in (find_source a.sources k) sequence) ≡ is_none (rect_at old.unacknowledged sequence)

-- a client that has no such window
pub record DoesNothing (number : ℤ) (a : AttachedSeen) (event : Window → Window) : Type 0 where
  pub missing : has_source a number ≡ false
  pub same : a ≡ at_window number a (λ k. changes_source k event a)
  pub stray : (sequence : ℤ) → at_window number true (λ k. is_stray_in (find_source a.sources k) sequence) ≡ true

module _ (places : KeyedPlaces SourceSeen) (keeps : KeyedKeeps SourceSeen) where
  pub put_at : (sources : List SourceSeen) (k i : ℕ) (event : Window → Window) (old new : SourceSeen) → HasDistinctKeys source_key sources → IsAt sources k i
      → old ≡ slice_index_or sources i old → new ≡ after event old → slice_set sources i new ≡ keyed_change source_key sources k (after event)
  put_at sources k i event old new distinct at is made = ap (slice_set sources i) (made ∙ ap (after event) is) ∙ places.changed source_key sources k i (after event) old distinct at

  pub put_keeps : (sources : List SourceSeen) (k i : ℕ) (event : Window → Window) (old new : SourceSeen) → HasDistinctKeys source_key sources → IsAt sources k i
      → old ≡ slice_index_or sources i old → new ≡ after event old → HasDistinctKeys source_key (slice_set sources i new)
  put_keeps sources k i event old new distinct at is made =
      subst (HasDistinctKeys source_key) (sym (put_at sources k i event old new distinct at is made)) (keeps.changed source_key sources k (after event) (λ s. refl) distinct)

  pub found_at : (sources : List SourceSeen) (k i : ℕ) (old : SourceSeen) → IsAt sources k i → i < length sources → old ≡ slice_index_or sources i old → find_source sources k ≡ Some old
  found_at sources k i old at within is = places.found source_key sources k i at ∙ slice_get-get_or sources i old within ∙ ap Some (sym is)

  pub does_at : (number : ℤ) (a : AttachedSeen) (i : ℕ) (old new : SourceSeen) (event : Window → Window) → HasDistinctKeys source_key a.sources → IsNamedAt a.sources number (Some i) → i < length a.sources
      → old ≡ slice_index_or a.sources i old → new ≡ after event old → DoesAt number a i old new event
  does_at number a i old new event distinct named within is made = go (named_at a.sources number i named)
    where
      go : NamesPlace a.sources number i → DoesAt number a i old new event
      go it =
          let found = found_at a.sources it.k i old it.at within is in
          subst (λ (n : ℤ). DoesAt n a i old new event) (sym it.is) (record {
            there = ap is_some found;
            acted = ap (λ (sources : List SourceSeen). record a { sources = sources }) (put_at a.sources it.k i event old new distinct it.at is made);
            kept = put_keeps a.sources it.k i event old new distinct it.at is made;
            stray = λ sequence. ap (λ (o : Option SourceSeen). is_stray_in o sequence) found;
          })

  pub does_nothing : (number : ℤ) (a : AttachedSeen) (event : Window → Window) → IsNamedAt a.sources number None → DoesNothing number a event
  does_nothing (negsuc k) a event none = record { missing = refl; same = refl; stray = λ sequence. refl }
  does_nothing (pos k) a event none =
      let found = places.missing source_key a.sources k (sym (alike k a.sources) ∙ sym none) in
      record {
        missing = ap is_some found;
        same = ap (λ (sources : List SourceSeen). record a { sources = sources }) (sym (nothing_changes a.sources k (after event) found));
        stray = λ sequence. ap (λ (o : Option SourceSeen). is_stray_in o sequence) found;
      }
