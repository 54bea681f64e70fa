use Rattle.std.proofs.Common.{◌<◌, ℕ, List, [], refl, sym, ap, ◌∙◌, subst}
use Rattle.connection_table.specs.Tables.{Open, Away}
use Rattle.link_bay.specs.Answers.{ReadGives}
use Rattle.link_bay.specs.declared.bay.Gave.TheVariants as G
use Rattle.open_connection.specs.Connection.{connection_in}
use Rattle.session_state.specs.Views.{known, slots_in}
use Rattle.session_state.proofs.Viewed.{view_set, view_away, taken_there}
use Rattle.session_state.proofs.Sends.{low_known, seen_open}
use Rattle.session_state.proofs.Receives.{bytes_so, again_so, end_so, failed_so, short_so}
use Rattle.session_state.proofs.state.State.receive.Goals as goal

pub hear-requires-clause-taken : goal.hear-requires-clause-taken
hear-requires-clause-taken g c = taken_there c.self.inside.table.slots c.take.new.self.slots c.args.c.0 c.in-Some.connection (sym c.take.ensures.value ∙ c.in-Some.is) c.in-Some.ensures.out

pub put_back-requires : goal.put_back-requires
put_back-requires g c = view_away c.take.new.self.slots c.args.c.0 (taken_there c.self.inside.table.slots c.take.new.self.slots c.args.c.0 c.in-Some.connection (sym c.take.ensures.value ∙ c.in-Some.is) c.in-Some.ensures.out)

pub end_reading-requires-clause-taken : goal.end_reading-requires-clause-taken
end_reading-requires-clause-taken g c = taken_there c.self.inside.table.slots c.take.new.self.slots c.args.c.0 c.in-Some.connection (sym c.take.ensures.value ∙ c.in-Some.is) c.in-Some.ensures.out

pub end_reading-requires-clause-known : goal.end_reading-requires-clause-known
end_reading-requires-clause-known g c = subst (λ p. c.args.c.0 < p.count) (sym c.read.ensures.provider)
    (low_known (known g.B.Bay.tells g.B.Bay.provider g.B.Bay.connection) _ _ c.self.inside.table.slots c.args.c.0 c.in-Some.connection c.self.view_is c.requires.ready.counted refl (sym c.take.ensures.value ∙ c.in-Some.is))

pub end_reading-requires-in-Failed-clause-taken : goal.end_reading-requires-in-Failed-clause-taken
end_reading-requires-in-Failed-clause-taken g c = taken_there c.self.inside.table.slots c.take.new.self.slots c.args.c.0 c.in-Some.connection (sym c.take.ensures.value ∙ c.in-Some.is) c.in-Some.ensures.out

pub end_reading-requires-in-Failed-clause-known : goal.end_reading-requires-in-Failed-clause-known
end_reading-requires-in-Failed-clause-known g c = subst (λ p. c.args.c.0 < p.count) (sym c.read.ensures.provider)
    (low_known (known g.B.Bay.tells g.B.Bay.provider g.B.Bay.connection) _ _ c.self.inside.table.slots c.args.c.0 c.in-Some.connection c.self.view_is c.requires.ready.counted refl (sym c.take.ensures.value ∙ c.in-Some.is))

pub end_reading-requires-in-NoMemory-clause-taken : goal.end_reading-requires-in-NoMemory-clause-taken
end_reading-requires-in-NoMemory-clause-taken g c = taken_there c.self.inside.table.slots c.take.new.self.slots c.args.c.0 c.in-Some.connection (sym c.take.ensures.value ∙ c.in-Some.is) c.in-Some.ensures.out

pub end_reading-requires-in-NoMemory-clause-known : goal.end_reading-requires-in-NoMemory-clause-known
end_reading-requires-in-NoMemory-clause-known g c = subst (λ p. c.args.c.0 < p.count) (sym c.read.ensures.provider)
    (low_known (known g.B.Bay.tells g.B.Bay.provider g.B.Bay.connection) _ _ c.self.inside.table.slots c.args.c.0 c.in-Some.connection c.self.view_is c.requires.ready.counted refl (sym c.take.ensures.value ∙ c.in-Some.is))

pub returns-in-Bytes : goal.returns-in-Bytes
returns-in-Bytes g c = bytes_so (known g.B.Bay.tells g.B.Bay.provider g.B.Bay.connection) c.args.c _ c.args.self.now (slots_in c.take.new.self.slots) c.read.new.self (connection_in c.in-Some.connection)
    c.self.view_is (seen_open c.self.inside.table.slots c.args.c.0 c.in-Some.connection c.take.result c.take.ensures.value c.in-Some.is)
    (ap slots_in c.in-Some.ensures.out ∙ view_set c.self.inside.table.slots c.args.c.0 Away) c.read.ensures.others c.read.ensures.provider
    c.in-Bytes.count c.as_slice.result.now c.hear.result c.hear.new.self
    (subst (λ (bytes : List ℕ). ReadGives (g.B.Bay.connection c.self.inside.bay c.args.c.0) (g.B.Bay.connection c.read.new.self c.args.c.0) [] bytes 4096 (G.Bytes c.in-Bytes.count)) (sym c.as_slice.ensures.value)
    (subst (λ (into : List ℕ). ReadGives (g.B.Bay.connection c.self.inside.bay c.args.c.0) (g.B.Bay.connection c.read.new.self c.args.c.0) into c.read.new.into.items 4096 (G.Bytes c.in-Bytes.count)) c.new-bytes.ensures.items c.in-Bytes.ensures.answer))
    c.hear.ensures.others c.hear.ensures.provider c.hear.ensures.comes

pub returns-in-Again : goal.returns-in-Again
returns-in-Again g c = again_so (known g.B.Bay.tells g.B.Bay.provider g.B.Bay.connection) c.args.c _ c.args.self.now (slots_in c.take.new.self.slots) c.read.new.self (connection_in c.in-Some.connection)
    c.self.view_is (seen_open c.self.inside.table.slots c.args.c.0 c.in-Some.connection c.take.result c.take.ensures.value c.in-Some.is)
    (ap slots_in c.in-Some.ensures.out ∙ view_set c.self.inside.table.slots c.args.c.0 Away) c.read.ensures.others c.read.ensures.provider
    c.read.new.into.items (slots_in c.put_back.new.self.slots)
    (subst (λ (into : List ℕ). ReadGives (g.B.Bay.connection c.self.inside.bay c.args.c.0) (g.B.Bay.connection c.read.new.self c.args.c.0) into c.read.new.into.items 4096 G.Again) c.new-bytes.ensures.items c.in-Again.ensures.answer)
    (ap slots_in c.put_back.ensures ∙ view_set c.take.new.self.slots c.args.c.0 (Open c.in-Some.connection))

pub returns-in-End : goal.returns-in-End
returns-in-End g c = end_so (known g.B.Bay.tells g.B.Bay.provider g.B.Bay.connection) c.args.c _ c.args.self.now (slots_in c.take.new.self.slots) c.read.new.self (connection_in c.in-Some.connection)
    c.self.view_is (seen_open c.self.inside.table.slots c.args.c.0 c.in-Some.connection c.take.result c.take.ensures.value c.in-Some.is)
    (ap slots_in c.in-Some.ensures.out ∙ view_set c.self.inside.table.slots c.args.c.0 Away) c.read.ensures.others c.read.ensures.provider
    c.read.new.into.items c.end_reading.result c.end_reading.new.self c.end_reading.ensures.connections c.end_reading.ensures.provider
    (subst (λ (into : List ℕ). ReadGives (g.B.Bay.connection c.self.inside.bay c.args.c.0) (g.B.Bay.connection c.read.new.self c.args.c.0) into c.read.new.into.items 4096 G.End) c.new-bytes.ensures.items c.in-End.ensures.answer) c.end_reading.ensures.answer c.end_reading.ensures.state

pub returns-in-Failed : goal.returns-in-Failed
returns-in-Failed g c = failed_so (known g.B.Bay.tells g.B.Bay.provider g.B.Bay.connection) c.args.c _ c.args.self.now (slots_in c.take.new.self.slots) c.read.new.self (connection_in c.in-Some.connection)
    c.self.view_is (seen_open c.self.inside.table.slots c.args.c.0 c.in-Some.connection c.take.result c.take.ensures.value c.in-Some.is)
    (ap slots_in c.in-Some.ensures.out ∙ view_set c.self.inside.table.slots c.args.c.0 Away) c.read.ensures.others c.read.ensures.provider
    c.read.new.into.items c.end_reading-in-Failed.result c.end_reading-in-Failed.new.self c.end_reading-in-Failed.ensures.connections c.end_reading-in-Failed.ensures.provider
    (subst (λ (into : List ℕ). ReadGives (g.B.Bay.connection c.self.inside.bay c.args.c.0) (g.B.Bay.connection c.read.new.self c.args.c.0) into c.read.new.into.items 4096 G.Failed) c.new-bytes.ensures.items c.in-Failed.ensures.answer) c.end_reading-in-Failed.ensures.answer c.end_reading-in-Failed.ensures.state

pub returns-in-NoMemory : goal.returns-in-NoMemory
returns-in-NoMemory g c = short_so (known g.B.Bay.tells g.B.Bay.provider g.B.Bay.connection) c.args.c _ c.args.self.now (slots_in c.take.new.self.slots) c.read.new.self (connection_in c.in-Some.connection)
    c.self.view_is (seen_open c.self.inside.table.slots c.args.c.0 c.in-Some.connection c.take.result c.take.ensures.value c.in-Some.is)
    (ap slots_in c.in-Some.ensures.out ∙ view_set c.self.inside.table.slots c.args.c.0 Away) c.read.ensures.others c.read.ensures.provider
    c.read.new.into.items c.end_reading-in-NoMemory.result c.end_reading-in-NoMemory.new.self c.end_reading-in-NoMemory.ensures.connections c.end_reading-in-NoMemory.ensures.provider
    (subst (λ (into : List ℕ). ReadGives (g.B.Bay.connection c.self.inside.bay c.args.c.0) (g.B.Bay.connection c.read.new.self c.args.c.0) into c.read.new.into.items 4096 G.NoMemory) c.new-bytes.ensures.items c.in-NoMemory.ensures.answer) c.end_reading-in-NoMemory.ensures.answer c.end_reading-in-NoMemory.ensures.state
