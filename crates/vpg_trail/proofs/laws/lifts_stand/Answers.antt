use Rattle.vpg_trail.proofs.Lifting.{well_formed_lifts_stand, lifts_stand_in_parts, retracted_lifts_stand, free_lifts_stand}
use Rattle.vpg_trail.proofs.laws.lifts_stand.Goals as goal

pub returns : goal.returns
returns c = record {
  well_formed = well_formed_lifts_stand;
  parts = lifts_stand_in_parts;
  retracted = retracted_lifts_stand;
  free = free_lifts_stand;
}
