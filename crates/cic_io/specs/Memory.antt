-- The calls of a folder and of a sink in memory.
use Rattle.cic_io.specs.declared.call_count.CallCount.{CallCount}
use Rattle.cic_io.specs.declared.mem_folder.MemFolder.{MemFolder}
use Rattle.cic_io.specs.declared.mem_sink.MemSink.{MemSink}

-- the calls of a folder
abbrev pub folder_calls : MemFolder → CallCount
folder_calls folder = folder.calls

-- the calls of a sink
abbrev pub sink_calls : MemSink → CallCount
sink_calls sink = sink.calls
