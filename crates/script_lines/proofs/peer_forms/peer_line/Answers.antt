use Rattle.std.proofs.Common.{◌≡◌, ◌∙◌, ℕ, List, [], ◌∷◌, Ok, Err, refl, sym, ap}
use Rattle.std.proofs.lemmas.Result.{err_from_is_err_and}
use Rattle.script_lines.specs.Text.{words_of}
use Rattle.script_lines.specs.Arguments.{Number, Uuid, nth_word, number_at}
use Rattle.script_lines.specs.Places.{no_value}
use Rattle.link_bay.specs.declared.order.Order.TheVariants.{Join, Map, Unmap, Refresh, Leave}
use Rattle.link_bay.specs.declared.order.Kind.TheVariants as peers
use Rattle.xp_base.specs.declared.numbers.Conn.{Conn}
use Rattle.script_lines.specs.declared.kinds.PeerKind.TheVariants as kind
use Rattle.script_lines.specs.Forms.{client, wid, peer_order}
use Rattle.script_lines.proofs.FormsLemmas.{made, not_made, gives_made, gives_not}
use Rattle.script_lines.proofs.peer_forms.peer_line.Goals as goal

pub returns-in_err-none-in-Exact : goal.returns-in_err-none-in-Exact
returns-in_err-none-in-Exact c =
    let p = err_from_is_err_and c.from_residual.result c.from_residual.ensures.1 in
    rw (c.in-Exact.is, p.1, p.2) (sym (not_made [] no_value (peer_order kind.Exact) (words_of c.args.words.now) c.in_err-none-in-Exact.field-0.0 c.none.result c.none.ensures c.in_err-none-in-Exact.was))

pub returns-in_ok-none-in-Exact : goal.returns-in_ok-none-in-Exact
returns-in_ok-none-in-Exact c = rw (c.in-Exact.is, c.no_name.ensures) (sym (made [] no_value (λ (u : Unit {0}). Join peers.Exact []) (peer_order kind.Exact) (words_of c.args.words.now) c.in_ok-none-in-Exact.field-0 c.none.result (λ words. refl) c.none.ensures c.in_ok-none-in-Exact.was))

pub returns-in_err-uuid-in-NamedExact : goal.returns-in_err-uuid-in-NamedExact
returns-in_err-uuid-in-NamedExact c =
    let p = err_from_is_err_and c.from_residual-in_err-uuid-in-NamedExact.result c.from_residual-in_err-uuid-in-NamedExact.ensures.1 in
    rw (c.in-NamedExact.is, p.1, p.2) (gives_not (Uuid ∷ []) (nth_word 0) (peer_order kind.NamedExact) (words_of c.args.words.now) c.in_err-uuid-in-NamedExact.field-0.0 c.uuid.result c.uuid.ensures c.in_err-uuid-in-NamedExact.was)

pub returns-in_ok-uuid-in-NamedExact : goal.returns-in_ok-uuid-in-NamedExact
returns-in_ok-uuid-in-NamedExact c = rw c.in-NamedExact.is (gives_made (Uuid ∷ []) (nth_word 0) (λ (name : List ℕ). Join peers.Exact name) (peer_order kind.NamedExact) (words_of c.args.words.now) c.in_ok-uuid-in-NamedExact.field-0 c.uuid.result (λ words. refl) c.uuid.ensures c.in_ok-uuid-in-NamedExact.was)

pub returns-in_err-none-in-Lossy : goal.returns-in_err-none-in-Lossy
returns-in_err-none-in-Lossy c =
    let p = err_from_is_err_and c.from_residual-in_err-none-in-Lossy.result c.from_residual-in_err-none-in-Lossy.ensures.1 in
    rw (c.in-Lossy.is, p.1, p.2) (sym (not_made [] no_value (peer_order kind.Lossy) (words_of c.args.words.now) c.in_err-none-in-Lossy.field-0.0 c.none-in-Lossy.result c.none-in-Lossy.ensures c.in_err-none-in-Lossy.was))

pub returns-in_ok-none-in-Lossy : goal.returns-in_ok-none-in-Lossy
returns-in_ok-none-in-Lossy c = rw (c.in-Lossy.is, c.no_name-in-Lossy.ensures) (sym (made [] no_value (λ (u : Unit {0}). Join peers.Lossy []) (peer_order kind.Lossy) (words_of c.args.words.now) c.in_ok-none-in-Lossy.field-0 c.none-in-Lossy.result (λ words. refl) c.none-in-Lossy.ensures c.in_ok-none-in-Lossy.was))

pub returns-in_err-uuid-in-NamedLossy : goal.returns-in_err-uuid-in-NamedLossy
returns-in_err-uuid-in-NamedLossy c =
    let p = err_from_is_err_and c.from_residual-in_err-uuid-in-NamedLossy.result c.from_residual-in_err-uuid-in-NamedLossy.ensures.1 in
    rw (c.in-NamedLossy.is, p.1, p.2) (gives_not (Uuid ∷ []) (nth_word 0) (peer_order kind.NamedLossy) (words_of c.args.words.now) c.in_err-uuid-in-NamedLossy.field-0.0 c.uuid-in-NamedLossy.result c.uuid-in-NamedLossy.ensures c.in_err-uuid-in-NamedLossy.was)

pub returns-in_ok-uuid-in-NamedLossy : goal.returns-in_ok-uuid-in-NamedLossy
returns-in_ok-uuid-in-NamedLossy c = rw c.in-NamedLossy.is (gives_made (Uuid ∷ []) (nth_word 0) (λ (name : List ℕ). Join peers.Lossy name) (peer_order kind.NamedLossy) (words_of c.args.words.now) c.in_ok-uuid-in-NamedLossy.field-0 c.uuid-in-NamedLossy.result (λ words. refl) c.uuid-in-NamedLossy.ensures c.in_ok-uuid-in-NamedLossy.was)

pub returns-in_err-n-in-Dry : goal.returns-in_err-n-in-Dry
returns-in_err-n-in-Dry c =
    let p = err_from_is_err_and c.from_residual-in_err-n-in-Dry.result c.from_residual-in_err-n-in-Dry.ensures.1 in
    rw (c.in-Dry.is, p.1, p.2) (sym (not_made (Number 0 100000 ∷ []) (number_at 0) (peer_order kind.Dry) (words_of c.args.words.now) c.in_err-n-in-Dry.field-0.0 c.one_number.result c.one_number.ensures c.in_err-n-in-Dry.was))

pub returns-in_ok-n-in-Dry : goal.returns-in_ok-n-in-Dry
returns-in_ok-n-in-Dry c = rw (c.in-Dry.is, c.no_name-in-Dry.ensures) (sym (made (Number 0 100000 ∷ []) (number_at 0) (λ (n : ℕ). Join (peers.Dry n) []) (peer_order kind.Dry) (words_of c.args.words.now) c.in_ok-n-in-Dry.n c.one_number.result (λ words. refl) c.one_number.ensures c.in_ok-n-in-Dry.was))

pub returns-in_err-k-in-Map : goal.returns-in_err-k-in-Map
returns-in_err-k-in-Map c =
    let p = err_from_is_err_and c.from_residual-in_err-k-in-Map.result c.from_residual-in_err-k-in-Map.ensures.1 in
    rw (c.in-Map.is, p.1, p.2) (sym (not_made (client ∷ wid ∷ []) (λ (words : List (List ℕ)). (number_at 0 words, number_at 1 words)) (peer_order kind.Map) (words_of c.args.words.now) c.in_err-k-in-Map.field-0.0 c.client_and_window.result c.client_and_window.ensures c.in_err-k-in-Map.was))

pub returns-in_ok-k-in-Map : goal.returns-in_ok-k-in-Map
returns-in_ok-k-in-Map c = rw c.in-Map.is (sym (made (client ∷ wid ∷ []) (λ (words : List (List ℕ)). (number_at 0 words, number_at 1 words)) (λ (p : ℕ × ℕ). Map (record { 0 = p.0 }) p.1) (peer_order kind.Map) (words_of c.args.words.now) (c.in_ok-k-in-Map.k, c.in_ok-k-in-Map.wid) c.client_and_window.result (λ words. refl) c.client_and_window.ensures c.in_ok-k-in-Map.was))

pub returns-in_err-k-in-Unmap : goal.returns-in_err-k-in-Unmap
returns-in_err-k-in-Unmap c =
    let p = err_from_is_err_and c.from_residual-in_err-k-in-Unmap.result c.from_residual-in_err-k-in-Unmap.ensures.1 in
    rw (c.in-Unmap.is, p.1, p.2) (sym (not_made (client ∷ wid ∷ []) (λ (words : List (List ℕ)). (number_at 0 words, number_at 1 words)) (peer_order kind.Unmap) (words_of c.args.words.now) c.in_err-k-in-Unmap.field-0.0 c.client_and_window-in-Unmap.result c.client_and_window-in-Unmap.ensures c.in_err-k-in-Unmap.was))

pub returns-in_ok-k-in-Unmap : goal.returns-in_ok-k-in-Unmap
returns-in_ok-k-in-Unmap c = rw c.in-Unmap.is (sym (made (client ∷ wid ∷ []) (λ (words : List (List ℕ)). (number_at 0 words, number_at 1 words)) (λ (p : ℕ × ℕ). Unmap (record { 0 = p.0 }) p.1) (peer_order kind.Unmap) (words_of c.args.words.now) (c.in_ok-k-in-Unmap.k, c.in_ok-k-in-Unmap.wid) c.client_and_window-in-Unmap.result (λ words. refl) c.client_and_window-in-Unmap.ensures c.in_ok-k-in-Unmap.was))

pub returns-in_err-k-in-Refresh : goal.returns-in_err-k-in-Refresh
returns-in_err-k-in-Refresh c =
    let p = err_from_is_err_and c.from_residual-in_err-k-in-Refresh.result c.from_residual-in_err-k-in-Refresh.ensures.1 in
    rw (c.in-Refresh.is, p.1, p.2) (sym (not_made (client ∷ wid ∷ []) (λ (words : List (List ℕ)). (number_at 0 words, number_at 1 words)) (peer_order kind.Refresh) (words_of c.args.words.now) c.in_err-k-in-Refresh.field-0.0 c.client_and_window-in-Refresh.result c.client_and_window-in-Refresh.ensures c.in_err-k-in-Refresh.was))

pub returns-in_ok-k-in-Refresh : goal.returns-in_ok-k-in-Refresh
returns-in_ok-k-in-Refresh c = rw c.in-Refresh.is (sym (made (client ∷ wid ∷ []) (λ (words : List (List ℕ)). (number_at 0 words, number_at 1 words)) (λ (p : ℕ × ℕ). Refresh (record { 0 = p.0 }) p.1) (peer_order kind.Refresh) (words_of c.args.words.now) (c.in_ok-k-in-Refresh.k, c.in_ok-k-in-Refresh.wid) c.client_and_window-in-Refresh.result (λ words. refl) c.client_and_window-in-Refresh.ensures c.in_ok-k-in-Refresh.was))

pub returns-in_err-k-in-Leave : goal.returns-in_err-k-in-Leave
returns-in_err-k-in-Leave c =
    let p = err_from_is_err_and c.from_residual-in_err-k-in-Leave.result c.from_residual-in_err-k-in-Leave.ensures.1 in
    rw (c.in-Leave.is, p.1, p.2) (sym (not_made (Number 0 99999 ∷ []) (number_at 0) (peer_order kind.Leave) (words_of c.args.words.now) c.in_err-k-in-Leave.field-0.0 c.one_number-in-Leave.result c.one_number-in-Leave.ensures c.in_err-k-in-Leave.was))

pub returns-in_ok-k-in-Leave : goal.returns-in_ok-k-in-Leave
returns-in_ok-k-in-Leave c = rw c.in-Leave.is (sym (made (Number 0 99999 ∷ []) (number_at 0) (λ (n : ℕ). Leave (record { 0 = n })) (peer_order kind.Leave) (words_of c.args.words.now) c.in_ok-k-in-Leave.k c.one_number-in-Leave.result (λ words. refl) c.one_number-in-Leave.ensures c.in_ok-k-in-Leave.was))
