use Rattle.std.proofs.Common.{[], ◌∷◌, ◌++◌, ap, ◌∙◌, arith}
use Rattle.connection_table.specs.Tables.{Open}
use Rattle.open_connection.specs.Connection.{connection_in}
use Rattle.session_state.specs.Views.{known, slots_in}
use Rattle.session_state.proofs.Viewed.{view_push, view_count}
use Rattle.session_state.proofs.Seeing.{accept_full, accept_short, accept_comes, accept_nobody, accept_failed, accept_without}
use Rattle.session_state.proofs.state.State.accept.Goals as goal

pub returns-then-open_count-ge-CAPACITY : goal.returns-then-open_count-ge-CAPACITY
returns-then-open_count-ge-CAPACITY g c = accept_full (known g.B.Bay.tells g.B.Bay.provider g.B.Bay.connection) _ _ c.self.view_is (let same = view_count c.self.inside.table.slots in let many = c.open_count.ensures in let full = c.if-open_count-ge-CAPACITY.true in omega (arith, same, many, full))

pub returns-then-is_err : goal.returns-then-is_err
returns-then-is_err g c = accept_short (known g.B.Bay.tells g.B.Bay.provider g.B.Bay.connection) _ _ _ c.self.view_is (let same = view_count c.self.inside.table.slots in let many = c.open_count.ensures in let room = c.if-open_count-ge-CAPACITY.false in omega (arith, same, many, room)) (ap slots_in c.reserve.ensures.same)

pub returns-in-Conn : goal.returns-in-Conn
returns-in-Conn g c = accept_comes (known g.B.Bay.tells g.B.Bay.provider g.B.Bay.connection) _ _ _ _ c.self.view_is (let same = view_count c.self.inside.table.slots in let many = c.open_count.ensures in let room = c.if-open_count-ge-CAPACITY.false in omega (arith, same, many, room)) c.accept.ensures.others c.accept.ensures.numbered c.in-Conn.c c.in-Conn.ensures.answer
    (ap slots_in c.push.ensures ∙ view_push c.reserve.new.self.slots (Open c.new.result) ∙ ap (λ s. slots_in s ++ Open (connection_in c.new.result) ∷ []) c.reserve.ensures.same ∙ ap (λ x. slots_in c.self.inside.table.slots ++ Open x ∷ []) c.new.ensures)

pub returns-in-Nobody : goal.returns-in-Nobody
returns-in-Nobody g c = accept_nobody (known g.B.Bay.tells g.B.Bay.provider g.B.Bay.connection) _ _ _ _ c.self.view_is (let same = view_count c.self.inside.table.slots in let many = c.open_count.ensures in let room = c.if-open_count-ge-CAPACITY.false in omega (arith, same, many, room)) c.accept.ensures.others c.accept.ensures.numbered c.in-Nobody.ensures.answer (ap slots_in c.reserve.ensures.same)

pub returns-in-Failed : goal.returns-in-Failed
returns-in-Failed g c = accept_failed (known g.B.Bay.tells g.B.Bay.provider g.B.Bay.connection) _ _ _ _ c.self.view_is (let same = view_count c.self.inside.table.slots in let many = c.open_count.ensures in let room = c.if-open_count-ge-CAPACITY.false in omega (arith, same, many, room)) c.accept.ensures.others c.accept.ensures.numbered c.in-Failed.ensures.answer (ap slots_in c.reserve.ensures.same)

pub returns-in-NoMemory : goal.returns-in-NoMemory
returns-in-NoMemory g c = accept_without (known g.B.Bay.tells g.B.Bay.provider g.B.Bay.connection) _ _ _ _ c.self.view_is (let same = view_count c.self.inside.table.slots in let many = c.open_count.ensures in let room = c.if-open_count-ge-CAPACITY.false in omega (arith, same, many, room)) c.accept.ensures.others c.accept.ensures.numbered c.in-NoMemory.ensures.answer (ap slots_in c.reserve.ensures.same)
