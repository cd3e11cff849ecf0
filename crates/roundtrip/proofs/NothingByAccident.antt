-- Nothing happens by accident: a device acts on a line exactly where it is some command for it, as the devices before it would have left it;
-- any other line passes unchanged, and no register of any device changes.
use mathlib.Core.Path.{◌≡◌, refl, sym, ap, ◌∙◌, subst}
use mathlib.Core.Bool.{Bool, true, false}
use mathlib.Core.Logic.{⊎_elim}
use mathlib.Core.List.{List, [], ◌++◌}
use Prim.Native.Nat.{ℕ, ◌*◌, ◌≤◌, suc}
use native.Mathlib.Nat.{eq-zero-or-pos}
use lib.ListN.{length}
use Rattle.passage.specs.Pass.{change_asked, change_of, changed}
use Rattle.twin.proofs.Registers.{hop_own}
use Rattle.twin.proofs.Stepping.{hop_unacted}
use Rattle.roundtrip.specs.Between.{held}
use Rattle.ground.proofs.Sweep.{length_tabulated}
use Rattle.lines.specs.Line.{line_of, byte_at}
use Rattle.questions.specs.Bytes.{on_wire, low_high}
use Rattle.questions.specs.declared.question.Question.{Question}
use Rattle.questions.proofs.Wire.{length_wire}
use Rattle.acceptance.proofs.Wire.{wire_bytes}
use Rattle.hearing.specs.Hear.{carried, plainly, heard}
use Rattle.underway.specs.OnTheWay.{on_the_way, wire_of}
use Rattle.passage.specs.Acting.{acts, handed_on}
use Rattle.hearing.proofs.Hearing.{heard_either, heard_good, heard_n, place_below}
use Rattle.passage.proofs.EqualLength.{acts_place, acts_met}
use Rattle.twin.specs.Step.{registers_of, Chain, hop}
use Rattle.roundtrip.specs.Commands.{CommandFor}
use Rattle.roundtrip.proofs.Values.{values_of, values_number, values_wire, values_registers}
use Rattle.roundtrip.proofs.WhereItActs.{Acts}
use Rattle.roundtrip.proofs.Acting.{acts_on}
use Rattle.roundtrip.proofs.HelloActing.{met_is, hello_on}
use Rattle.roundtrip.proofs.AnothersCommand.{heard_sends, wire_small}

module _ (n k : ℕ) (line : List ℕ) where
  heard_own : (heard n k line).device ≡ k
  unfolding plainly
  heard_own = heard_either n k line (λ (x : Question). x.device ≡ k) refl refl

  -- What a device acts on is a command for it.
  pub only_commands : acts n k line ≡ true → CommandFor n k line
  only_commands e =
      let q = heard n k line in
      let m = carried q.kind k in
      let place = acts_place n k line e in
      let below = place_below n k place in
      let wire = wire_of line m in
      let small = wire_small n k line m in
      let size = length_tabulated (byte_at line) (2 * m) 2 in
      record {
        question = q;
        sent = heard_sends n k line;
        put = record { good = heard_good n k line place; chain = λ some. heard_n n k line; within = below.0; most = below.1; to = λ one. heard_own };
        values = values_of wire small m size;
        number = values_number wire small m size;
        registers = values_registers wire small m size;
        is = acts_met n k line e ∙ met_is n k line ∙ ap (λ (w : List ℕ). line_of (on_the_way q k 0 w)) (values_wire wire small m size);
      }

  -- And it acts on every command for it.
  pub every_command : CommandFor n k line → acts n k line ≡ true
  every_command c =
      let q = c.question in
      let wire = on_wire c.values in
      subst (λ (l : List ℕ). acts n k l ≡ true) (sym c.is) (⊎_elim
      (λ (hello : q.kind ≡ 0). (hello_on q n k c.put hello [] 0 0 wire wire).acted)
      (λ (some : 1 ≤ q.kind). (acts_on q n k c.put c.sent 0 wire (wire_bytes c.values c.registers) (length c.values) (length_wire c.values) some c.number []).acted)
      (eq-zero-or-pos q.kind))

-- A line that is no command for device k leaves that device's step nothing to do.
pub no_command_no_change : (n k : ℕ) (s : Chain) → (CommandFor n k s.line → ⊥) → ((hop n k s).line ≡ s.line) × ((hop n k s).memory ≡ s.memory)
no_command_no_change n k s none = by_test (acts n k s.line) refl
  where
    by_test : (t : Bool) → acts n k s.line ≡ t → ((hop n k s).line ≡ s.line) × ((hop n k s).memory ≡ s.memory)
    by_test true e = absurd (none (only_commands n k s.line e))
    by_test false e = let same = hop_unacted n k s e in (ap (λ (x : Chain). x.line) same, ap (λ (x : Chain). x.memory) same)

-- EACH STEP BY ITS RULE, said without the device's own test: on a command for it the device hands on that command with HELLOALL's last byte
-- and the alive byte one more and its own value directly after the register byte, and does to its registers what the command asks.
pub by_its_rule : (n k : ℕ) (s : Chain) (c : CommandFor n k s.line)
    → ((hop n k s).line ≡ line_of (on_the_way c.question (suc k) 1 (low_high (held s.memory k c.question.reg) ++ on_wire c.values)))
    × (registers_of (hop n k s).memory k ≡ changed (registers_of s.memory k) (change_asked c.question))
by_its_rule n k s c =
    let q = c.question in
    let registers = registers_of s.memory k in
    let wire = on_wire c.values in
    let done : Acts n k (line_of (on_the_way q k 0 wire)) (line_of (on_the_way q (suc k) 1 (low_high (held s.memory k q.reg) ++ wire))) q registers =
    ⊎_elim (λ (hello : q.kind ≡ 0). hello_on q n k c.put hello registers 0 1 wire (low_high (held s.memory k q.reg) ++ wire))
    (λ (some : 1 ≤ q.kind). acts_on q n k c.put c.sent 0 wire (wire_bytes c.values c.registers) (length c.values) (length_wire c.values) some c.number registers)
    (eq-zero-or-pos q.kind) in (
      ap (λ (l : List ℕ). handed_on n k l registers) c.is ∙ done.hands,
      hop_own n k s ∙ ap (changed registers) (ap (change_of n k) c.is ∙ done.changes),
    )
