-- The round trip: through the chain by `roundtrip`'s laws on all hops, said of the call; and back by demand 2, since what came of it is a right
-- answer's line.
use Rattle.std.specs.Prelude.{Result, ⊤}
use mathlib.Core.Path.{◌≡◌, sym, ap, ◌∙◌, subst}
use mathlib.Core.List.{List}
use Prim.Native.Nat.{ℕ, ◌≤◌}
use native.Mathlib.Omega.{arith}
use lib.ListN.{length, take, drop}
use lib.Seq.{take-append_seam, take_at}
use Rattle.std.specs.Prelude.{Result}
use Rattle.lines.specs.Write.{at_front}
use Rattle.questions.specs.Shape.{shape_of}
use Rattle.commands.specs.Command.{command_line, CommandPut}
use Rattle.commands.specs.declared.CommandRefusal.{CommandRefusal}
use Rattle.questions.specs.declared.question.Question.{Question}
use Rattle.readings.specs.Reading.{number_of}
use Rattle.readings.specs.declared.Refusal.{Refusal}
use Rattle.readings.specs.declared.Taken.{Taken}
use Rattle.reader.specs.Read.{ReadDone}
use Rattle.acceptance.specs.Answer.{reading_of, handed_out}
use Rattle.twin.specs.Step.{chain_with, hops, ChainDone}
use Rattle.twin.specs.declared.step.StepRefusal.{StepRefusal}
use Rattle.commands.proofs.Issuing.{command_written}
use Rattle.twin.proofs.Stepping.{says_handed, leaves_line, leaves_memory, hops_length}
use Rattle.roundtrip.specs.Between.{brought_back, ChangedBy}
use Rattle.roundtrip.proofs.RoundTrip.{right_answer}
use Rattle.roundtrip.proofs.RegistersAfter.{held_after}
use Rattle.promises.specs.RoundTrip.{PutTo, Trip, RoundTrip}
use Rattle.promises.proofs.Demand2.{demand_2}
use Rattle.promises.proofs.EachStep.{is_a_chain}

module _ (q : Question) (n : ℕ) (memory : List ℕ) (to : PutTo q n memory) where
  trip : (out out_after memory_left : List ℕ) (r : Result ⊤ StepRefusal) → ChainDone n memory memory_left (command_line q) out out_after r
      → length (command_line q) ≤ length out → Trip q n memory memory_left out out_after r
  trip out out_after memory_left r done room =
      let start = chain_with memory (command_line q) in
      let end = hops n n start in
      let fits = is_a_chain n memory (omega arith) (omega arith) (omega arith) in
      let chain : 1 ≤ q.kind → q.n ≡ n = λ some. omega (arith, to.named some) in
      let left = leaves_memory start end out out_after memory_left r _ done fits room in
      record {
        handed = says_handed start end out out_after memory_left r _ done fits room;
        answer = end.line;
        words = hops_length n 0 n start;
        right = right_answer q to.good to.sends n chain to.least to.most memory to.registers;
        stands = leaves_line start end out out_after memory_left r _ done fits room;
        holds = subst (ChangedBy q n memory) (sym left)
            (held_after q to.good to.sends n chain to.least to.most memory to.registers to.words);
      }

  whole_trip : (written line out out_after memory_left before after : List ℕ) (issued : Result ℕ CommandRefusal) (r : Result ⊤ StepRefusal) (reading : Result Taken Refusal)
      → CommandPut q written line issued → length (command_line q) ≤ length written
      → ChainDone n memory memory_left (take (length (command_line q)) line) out out_after r → length (command_line q) ≤ length out
      → ReadDone q (take (length (command_line q)) out_after) before after reading → (shape_of q).values ≤ length before
      → (number_of reading ≡ 0) × (reading ≡ reading_of q (brought_back q n memory)) × (after ≡ at_front (handed_out q (brought_back q n memory)) before)
      × ChangedBy q n memory memory_left
  whole_trip written line out out_after memory_left before after issued r reading put room-to-write stepped room-to-step done room-to-read =
      let words = length (command_line q) in
      let sent : take words line ≡ command_line q =
      ap (take words) (command_written q written line issued put to.good room-to-write) ∙ take-append_seam (command_line q) (drop words written) in
      let there = trip out out_after memory_left r (subst (λ (l : List ℕ). ChainDone n memory memory_left l out out_after r) sent stepped) room-to-step in
      let back : take words out_after ≡ there.answer =
      ap (take words) there.stands ∙ take_at there.answer (drop (length there.answer) out) words there.words in
      let read = (demand_2.answers q there.answer before).always_then after reading (subst (λ (l : List ℕ). ReadDone q l before after reading) back done)
      to.sends (brought_back q n memory) (record { good = to.good; room = room-to-read; answer = there.right }) in
      (read.0, read.1, read.2, there.holds)

pub round_trip : RoundTrip
round_trip = record { through = trip; whole = whole_trip }
