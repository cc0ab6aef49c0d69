-- How streams flow.
use Rattle.std.proofs.Common.{◌≡◌, ℕ, List, [], ◌∷◌, ◌++◌, refl, sym, append-nil}
use Rattle.lib_defs.specs.Constraints.{Look, Saw, Stuck}
use Rattle.lib_defs.specs.StreamRows.{puts_by, get_reply, abort_by}
use Rattle.lib_defs.specs.World.{Ending, AtEnd, Broken, Streams, World, Flows}

-- the streams as they are
pub flows_still : (s : Streams) → Flows s s
flows_still s = record {
  taken = [];
  bytes = refl;
  ending = refl;
  printed = [];
  output = sym (append-nil s.output);
  reported = [];
  err = sym (append-nil s.err);
}

-- more output, and more error output
pub flows_writing : (w : World) (text : List ℕ)
    → Flows w.streams (record (w.streams) { output = w.streams.output ++ text })
flows_writing w text = record {
  taken = [];
  bytes = refl;
  ending = refl;
  printed = text;
  output = refl;
  reported = [];
  err = sym (append-nil w.streams.err);
}

flows_telling : (w : World) (text : List ℕ) → Flows w.streams (record (w.streams) { err = w.streams.err ++ text })
flows_telling w text = record {
  taken = [];
  bytes = refl;
  ending = refl;
  printed = [];
  output = sym (append-nil w.streams.output);
  reported = text;
  err = refl;
}

pub puts_flows : (w : World) (seen : Look (List ℕ)) → Flows w.streams (puts_by seen w).streams
puts_flows w (Saw text) = flows_writing w _
puts_flows w (Stuck stop) = flows_still w.streams

pub abort_flows : (w : World) (seen : Look (List ℕ)) → Flows w.streams (abort_by seen w).streams
abort_flows w (Saw text) = flows_telling w _
abort_flows w (Stuck stop) = flows_still w.streams

-- a byte of the input is taken
pub get_flows : (w : World) (bytes : List ℕ) (ending : Ending) → w.streams.input.bytes ≡ bytes
    → w.streams.input.ending ≡ ending
    → Flows w.streams (get_reply w bytes ending).streams
get_flows w [] AtEnd e is = flows_still w.streams
get_flows w [] Broken e is = flows_still w.streams
get_flows w (b ∷ bytes) ending e is = record {
  taken = b ∷ [];
  bytes = e;
  ending = sym is;
  printed = [];
  output = sym (append-nil w.streams.output);
  reported = [];
  err = sym (append-nil w.streams.err);
}
