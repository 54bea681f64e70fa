-- The provider of one peer, after a read or a write.
use Rattle.std.proofs.Common.{◌≡◌, ℕ, ◌+◌, ◌-◌, ◌<◌, ◌≤◌, drop, Bool, true, false, List, [], ◌∷◌, ◌++◌, length, take, replicate, refl, sym, ap, ◌∙◌, arith, cond, eqb, min, append_assoc}
use Rattle.std.proofs.lemmas.Bool.Decides.{nat_tests}
use Rattle.std.proofs.lemmas.Bool.{true≢false}
use Rattle.std.proofs.lemmas.List.{length-append, length-drop, length-take-le, take-append-le}
use Rattle.std.proofs.Math.Seq.{take-add}
use Rattle.xp_base.specs.Counts.{count_sum}
use Rattle.link_bay.specs.declared.writes.Write.{Write}
use Rattle.link_bay.specs.declared.bay.Gave.TheVariants as G
use Rattle.link_bay.specs.declared.bay.Wrote.TheVariants as W
use Rattle.link_bay.specs.Answers.{WriteGives, is_dry, drought_after}
use Rattle.link_bay.specs.ExactPeer.{exact_hello, nothing_yet, follow, replies, says}
use Rattle.link_bay.specs.Peers.{OnePeer, one_connection}
use Rattle.link_bay.specs.OneSteps.{left_of, ReadOfOne, WriteOfOne}
use Rattle.link_bay.specs.OneKept.{IsOneBay}
use Rattle.link_bay.specs.Writes.{heard_of}
use Rattle.link_bay.proofs.ExactPeers.{more_followed}

-- the one connection has the number 0
pub only_zero : (accepted : Bool) (c : ℕ) → c < cond accepted 1 0 → c ≡ 0
only_zero true c known = omega arith
only_zero false c known = absurd (omega arith)

-- one write more
pub heard_of-push : (writes : List Write) (w : Write) → heard_of (writes ++ w ∷ []) ≡ heard_of writes ++ replicate w.taken w.given
heard_of-push [] w = append_nil_right (replicate w.taken w.given)
  where
    append_nil_right : (xs : List ℕ) → xs ++ [] ≡ xs
    append_nil_right [] = refl
    append_nil_right (x ∷ xs) = ap (λ rest. x ∷ rest) (append_nil_right xs)
heard_of-push (v ∷ writes) w = ap (λ rest. replicate v.taken v.given ++ rest) (heard_of-push writes w) ∙ sym (append_assoc (replicate v.taken v.given) (heard_of writes) (replicate w.taken w.given))

-- a write that takes all is not dry
never_dry : (piece : List ℕ) (n : ℕ) → n ≡ min (length piece) 4294967295 → is_dry piece n ≡ false
never_dry [] n all = grind (arith, nat_tests)
never_dry (byte ∷ piece) n all = grind (arith, nat_tests)

no_drought : (piece : List ℕ) (n : ℕ) → is_dry piece n ≡ false → drought_after 0 piece n ≡ 0
no_drought piece n wet = rw wet (same (eqb n 0))
  where
    same : (b : Bool) → ◌≡◌ {A = ℕ} (cond b 0 0) 0
    same true = refl
    same false = refl

one_took : (p : OnePeer) (sent given heard piece : List ℕ) (n unheard : ℕ) → n ≡ min (length piece) 4294967295 → sent ≡ p.sent ++ take n piece → given ≡ p.given
    → heard ≡ p.heard ++ replicate n (length p.given) → unheard ≡ count_sum p.unheard n
    → WriteGives (one_connection p 0) (one_connection (record p { sent = sent; given = given; heard = heard; unheard = unheard }) 0) piece (W.Took n)
one_took p sent given heard piece n unheard all is_sent is_given is_heard is_unheard =
    let wet = never_dry piece n all in (
      omega arith,
      rw wet refl,
      rw (is_sent, is_given, is_heard, is_unheard, no_drought piece n wet) refl,
    )

all_taken : (p : OnePeer) (sent given heard piece : List ℕ) (n unheard : ℕ) → n ≡ min (length piece) 4294967295 → sent ≡ p.sent ++ take n piece → given ≡ p.given
    → heard ≡ p.heard ++ replicate n (length p.given) → unheard ≡ count_sum p.unheard n
    → WriteOfOne p (record p { sent = sent; given = given; heard = heard; unheard = unheard }) piece (W.Took n)
all_taken p sent given heard piece n unheard all is_sent is_given is_heard is_unheard = (all, rw (is_sent, is_given, is_heard, is_unheard) refl)

-- a write, by what is kept
pub one_written : (p : OnePeer) (place : ℕ) (said said' more sent piece : List ℕ) (writes writes' : List Write) (n unheard : ℕ) → place ≤ length said → p.given ≡ take place said
    → p.heard ≡ heard_of writes → n ≡ min (length piece) 4294967295 → sent ≡ p.sent ++ take n piece → said' ≡ said ++ more
    → writes' ≡ writes ++ record { taken = n; given = place } ∷ [] → unheard ≡ count_sum p.unheard n
    → WriteOfOne p (record p { sent = sent; given = take place said'; heard = heard_of writes'; unheard = unheard }) piece (W.Took n)
    × WriteGives (one_connection p 0) (one_connection (record p { sent = sent; given = take place said'; heard = heard_of writes'; unheard = unheard }) 0) piece (W.Took n)
one_written p place said said' more sent piece writes writes' n unheard within was_given was_heard all is_sent is_said is_written is_unheard =
    let given : take place said' ≡ p.given = ap (take place) is_said ∙ take-append-le place said more within ∙ sym was_given in
    let counted : place ≡ length p.given = sym (length-take-le place said within) ∙ ap length (sym was_given) in
    let heard : heard_of writes' ≡ p.heard ++ replicate n (length p.given) =
    ap heard_of is_written ∙ heard_of-push writes (record { taken = n; given = place })
    ∙ ap (λ hs. hs ++ replicate n place) (sym was_heard) ∙ ap (λ k. p.heard ++ replicate n k) counted in (
      all_taken p sent (take place said') (heard_of writes') piece n unheard all is_sent given heard is_unheard,
      one_took p sent (take place said') (heard_of writes') piece n unheard all is_sent given heard is_unheard,
    )

-- a read, by what is kept
pub one_read : (p : OnePeer) (said into into' given : List ℕ) (place max n : ℕ) → said ≡ says p.joined p.sent → p.given ≡ take place said → place ≤ length said
    → n ≡ min (length (drop place said)) max → 1 ≤ n → into' ≡ into ++ take n (drop place said) → given ≡ take (place + n) said
    → ReadOfOne p (record p { given = given }) into into' max (G.Bytes n)
one_read p said into into' given place max n exact was_given within least some is_into is_given =
    let left : left_of p ≡ drop place said =
    ap (λ xs. drop (length xs) (says p.joined p.sent)) was_given ∙ ap (λ k. drop k (says p.joined p.sent)) (length-take-le place said within) ∙ ap (drop place) (sym exact) in (
      least ∙ ap (λ xs. min (length xs) max) (sym left),
      some,
      is_into ∙ ap (λ xs. into ++ take n xs) (sym left),
      ap (λ xs. record p { given = xs }) (is_given ∙ take-add place n said ∙ ap (λ xs. xs ++ take n (drop place said)) (sym was_given) ∙ ap (λ xs. p.given ++ take n xs) (sym left)),
    )

pub is_accepted : (accepted : Bool) (c : ℕ) → c < cond accepted 1 0 → accepted ≡ true
is_accepted true c known = refl
is_accepted false c known = absurd (omega arith)

pub kept_at_write : (joined accepted : Bool) (said said' sent sent' more new : List ℕ) (place followed used waits unheard unheard' : ℕ) (writes writes' : List Write)
    → IsOneBay joined accepted said place sent followed writes waits unheard → accepted ≡ true → sent' ≡ sent ++ more → said' ≡ said ++ new
    → used ≤ length (drop followed sent') → follow nothing_yet (drop followed sent') ≡ record { said = new; rest = drop used (drop followed sent') }
    → IsOneBay joined accepted said' place sent' (followed + used) writes' waits unheard'
kept_at_write joined accepted said said' sent sent' more new place followed used waits unheard unheard' writes writes' kept there is_sent is_said within heard =
    let handed = kept.handed in
    let behind = kept.behind in
    let here : joined ≡ true = kept.ordered there in
    let longer : length sent' ≡ length sent + length more = ap length is_sent ∙ length-append sent more in
    let left : length (drop followed sent') ≡ length sent' - followed = length-drop followed sent' in
    let grown : length said' ≡ length said + length new = ap length is_said ∙ length-append said new in
    let talk : follow nothing_yet sent' ≡ record { said = replies sent ++ new; rest = drop (followed + used) sent' } =
    let along : (bytes : List ℕ) → bytes ≡ sent' → follow nothing_yet (drop followed bytes) ≡ record { said = new; rest = drop used (drop followed bytes) } = λ bytes same. rw same heard in
    ap (follow nothing_yet) is_sent ∙ more_followed sent more new followed used behind kept.unfollowed (along (sent ++ more) (sym is_sent))
    ∙ ap (λ bytes. record { said = replies sent ++ new; rest = drop (followed + used) bytes }) (sym is_sent) in
    let was : said ≡ exact_hello ++ replies sent = kept.exact ∙ ap (λ j. says j sent) here in
    record {
      handed = omega arith;
      behind = omega arith;
      exact = is_said ∙ ap (λ xs. xs ++ new) was ∙ append_assoc exact_hello (replies sent) new ∙ ap (λ t. exact_hello ++ t.said) (sym talk) ∙ ap (λ j. says j sent') (sym here);
      unfollowed = ap (λ t. t.rest) talk;
      ordered = kept.ordered;
      unread = λ h. absurd (true≢false (sym there ∙ h));
      unsent = λ h. absurd (true≢false (sym there ∙ h));
      unwritten = λ h. absurd (true≢false (sym there ∙ h));
      unwaited = λ h. absurd (true≢false (sym there ∙ h));
      all_heard = λ h. absurd (true≢false (sym there ∙ h));
    }

pub kept_at_join : (accepted : Bool) (said said' sent : List ℕ) (place followed waits unheard : ℕ) (writes : List Write)
    → IsOneBay false accepted said place sent followed writes waits unheard → said' ≡ said ++ exact_hello
    → IsOneBay true accepted said' place sent followed writes waits unheard
unfolding follow
kept_at_join true said said' sent place followed waits unheard writes kept is_said = absurd (true≢false (sym (kept.ordered refl)))
kept_at_join false said said' sent place followed waits unheard writes kept is_said =
    let none : sent ≡ [] = kept.unsent refl in
    let silent : said ≡ [] = kept.exact in
    let first : place ≡ 0 = kept.unread refl in
    record {
      handed = omega arith;
      behind = kept.behind;
      exact = is_said ∙ ap (λ xs. xs ++ exact_hello) silent ∙ ap (λ xs. exact_hello ++ replies xs) (sym none);
      unfollowed = kept.unfollowed;
      ordered = λ h. refl;
      unread = kept.unread;
      unsent = kept.unsent;
      unwritten = kept.unwritten;
      unwaited = kept.unwaited;
      all_heard = kept.all_heard;
    }
