-- A plant file's lines from its three parts.
use Rattle.std.proofs.Common.{◌≡◌, ℕ, ◌+◌, List}
use Rattle.format.specs.Plain.{Lane, Mark}
use Rattle.format.specs.Items.{Counts, plant_form, lane_form, mark_form}
use Rattle.format.specs.Turns.{Fault, got, lost, form, forms, lines}

pub lost_first : (t : List ℕ) (e : Fault) → form plant_form 1 t ≡ lost e → lines t ≡ lost e
unfolding lines
lost_first t e q = rw q

pub lost_lanes : (t u : List ℕ) (n : Counts) (e : Fault) → form plant_form 1 t ≡ got n u → forms lane_form n.lanes 2 u ≡ lost e → lines t ≡ lost e
unfolding lines
lost_lanes t u n e p q = rw (p, q)

pub lost_marks : (t u v : List ℕ) (n : Counts) (ls : List Lane) (e : Fault) → form plant_form 1 t ≡ got n u → forms lane_form n.lanes 2 u ≡ got ls v → forms (mark_form n.nodes) n.marks (2 + n.lanes) v ≡ lost e → lines t ≡ lost e
unfolding lines
lost_marks t u v n ls e p q r = rw (p, q, r)

pub got_all : (t u v w : List ℕ) (n : Counts) (ls : List Lane) (ms : List Mark) → form plant_form 1 t ≡ got n u → forms lane_form n.lanes 2 u ≡ got ls v → forms (mark_form n.nodes) n.marks (2 + n.lanes) v ≡ got ms w → lines t ≡ got (record { nodes = n.nodes; lanes = ls; marks = ms }) w
unfolding lines
got_all t u v w n ls ms p q r = rw (p, q, r)
