-- Nothing is left open: two answers that meet a call's contract, as its source states it, are the same, and so is what they leave in lent memory.
use mathlib.Core.Path.{sym, ◌∙◌}
use Rattle.ground.specs.Agree.{Settled, SettledIn}
use Rattle.bmc.proofs.bmc_read.Reads as read
use Rattle.bmc.proofs.bmc_command.Reads as command
use Rattle.bmc.proofs.bmc_part.Reads as part
use Rattle.bmc.proofs.bmc_explain.Reads as explain
use Rattle.bmc.proofs.bmc_cell.Reads as cell
use Rattle.bmc.proofs.bmc_cells.Reads as cells
use Rattle.bmc.proofs.bmc_certificate.Reads as certificate
use Rattle.bmc.proofs.bmc_twin_power_on.Reads as power_on
use Rattle.bmc.proofs.bmc_twin_step.Reads as step
use Rattle.bmc.proofs.bmc_twin_run.Reads as run
use Rattle.bmc.proofs.bmc_pec.Reads as pec

pub read_settled : Settled read.Post
read_settled l given r r' left left' p q = p.says ∙ sym q.says

pub read_settled_out : SettledIn (λ l left. left.1.1.1.1.1.1.1.1.0.now) read.Post
read_settled_out l given r r' left left' p q = p.leaves ∙ sym q.leaves

pub command_settled : Settled command.Post
command_settled l given r r' left left' p q = p.says ∙ sym q.says

pub command_settled_out : SettledIn (λ l left. left.1.1.1.1.1.1.1.0.now) command.Post
command_settled_out l given r r' left left' p q = p.leaves ∙ sym q.leaves

pub part_settled : Settled part.Post
part_settled l given r r' left left' p q = p ∙ sym q

pub explain_settled : Settled explain.Post
explain_settled l given r r' left left' p q = p ∙ sym q

pub cell_settled : Settled cell.Post
cell_settled l given r r' left left' p q = p.says ∙ sym q.says

pub cell_settled_microvolts : SettledIn (λ l left. left.1.1.1.1.0.now) cell.Post
cell_settled_microvolts l given r r' left left' p q = p.microvolts ∙ sym q.microvolts

pub cell_settled_volts : SettledIn (λ l left. left.1.1.1.1.1.0.now) cell.Post
cell_settled_volts l given r r' left left' p q = p.volts ∙ sym q.volts

pub cells_settled : Settled cells.Post
cells_settled l given r r' left left' p q = p.says ∙ sym q.says

pub cells_settled_microvolts : SettledIn (λ l left. left.1.1.1.0.now) cells.Post
cells_settled_microvolts l given r r' left left' p q = p.microvolts ∙ sym q.microvolts

pub cells_settled_volts : SettledIn (λ l left. left.1.1.1.1.0.now) cells.Post
cells_settled_volts l given r r' left left' p q = p.volts ∙ sym q.volts

pub cells_settled_answers : SettledIn (λ l left. left.1.1.1.1.1.0.now) cells.Post
cells_settled_answers l given r r' left left' p q = p.answers ∙ sym q.answers

pub certificate_settled : Settled certificate.Post
certificate_settled l given r r' left left' p q = p.says ∙ sym q.says

pub certificate_settled_text : SettledIn (λ l left. left.1.0.now) certificate.Post
certificate_settled_text l given r r' left left' p q = p.leaves ∙ sym q.leaves

pub power_on_settled : Settled power_on.Post
power_on_settled l given r r' left left' p q = p.says ∙ sym q.says

pub power_on_settled_memory : SettledIn (λ l left. left.1.0.now) power_on.Post
power_on_settled_memory l given r r' left left' p q = p.leaves ∙ sym q.leaves

pub step_settled : Settled step.Post
step_settled l given r r' left left' p q = p.says ∙ sym q.says

pub step_settled_memory : SettledIn (λ l left. left.1.1.0.now) step.Post
step_settled_memory l given r r' left left' p q = p.remembers ∙ sym q.remembers

pub step_settled_out : SettledIn (λ l left. left.1.1.1.1.0.now) step.Post
step_settled_out l given r r' left left' p q = p.leaves ∙ sym q.leaves

pub run_settled : Settled run.Post
run_settled l given r r' left left' p q = p.says ∙ sym q.says

pub run_settled_memory : SettledIn (λ l left. left.1.0.now) run.Post
run_settled_memory l given r r' left left' p q = p.remembers ∙ sym q.remembers

pub run_settled_out : SettledIn (λ l left. left.1.1.1.0.now) run.Post
run_settled_out l given r r' left left' p q = p.leaves ∙ sym q.leaves

pub pec_settled : Settled pec.Post
pec_settled l given r r' left left' p q = p ∙ sym q
