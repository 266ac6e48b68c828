use Rattle.nap_list.proofs.{AllFit, start, take, walk, ◌≡◌}
use Rattle.nap_list.proofs.legality.legal.Given as goal

-- the state after the entries so far, which fit
abbrev pub invariant-loop-index : goal.invariant-loop-index
invariant-loop-index l = record {
  state : l.state ≡ walk start (take l.index l.entries);
  fit : AllFit start (take l.index l.entries);
}
