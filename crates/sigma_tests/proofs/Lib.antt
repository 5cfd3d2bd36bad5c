mod SeenDevices
