-- `send` meets its contract: a good question's command goes through the chain, a bad one is not written.
use mathlib.Core.Path.{sym, ◌∙◌}
use native.Mathlib.Omega.{arith}
use Prim.Native.Nat.{ℕ}
use lib.ListN.{replicate, length-replicate, length-take}
use Rattle.rehearsal.proofs.Sending.{not_sent, within, was_sent}
use Rattle.rehearsal.proofs.entry.send.Goals as goal

pub slice_bounds-command-end : goal.slice_bounds-command-end
slice_bounds-command-end c =
    let a = c.args in
    let fits = within a.n a.q a.memory.now ((replicate {A = ℕ} 140 0)) ((length-replicate {A = ℕ} 140 0)) c.in-Ok.words (sym c.write_command.ensures.says ∙ c.in-Ok.is) in
    omega (arith, fits, c.write_command.auto.out, (length-replicate {A = ℕ} 140 0))

pub slice_bounds-run_chain-end : goal.slice_bounds-run_chain-end
slice_bounds-run_chain-end c =
    let a = c.args in
    let fits = within a.n a.q a.memory.now ((replicate {A = ℕ} 140 0)) ((length-replicate {A = ℕ} 140 0)) c.in-Ok.words (sym c.write_command.ensures.says ∙ c.in-Ok.is) in
    simp length-take (omega (arith, fits, c.write_command.auto.out, (length-replicate {A = ℕ} 140 0)))

pub returns : goal.returns
returns c =
    let a = c.args in
    was_sent a.n a.q a.memory.now ((replicate {A = ℕ} 140 0)) ((length-replicate {A = ℕ} 140 0)) c.write_command.result c.in-Ok.words _ a.line.now _ _ c.run_chain.result
    c.write_command.ensures c.in-Ok.is c.requires.0 c.requires.1 c.run_chain.ensures

pub returns-in_default : goal.returns-in_default
returns-in_default c =
    let a = c.args in
    not_sent a.n a.q a.memory.now (replicate {A = ℕ} 140 0) (length-replicate {A = ℕ} 140 0) c.write_command.result a.line.now
    c.write_command.ensures.says c.in_default.not-Ok
